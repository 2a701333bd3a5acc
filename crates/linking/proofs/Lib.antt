pub mod LinkLaws
pub mod LiftLaws
pub mod ByteLaws
pub mod ChainExamples
