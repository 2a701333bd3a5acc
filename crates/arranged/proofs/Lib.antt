pub mod StepLaws
pub mod ArrangeLaws
pub mod Rearranged
