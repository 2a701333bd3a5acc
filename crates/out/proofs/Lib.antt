pub mod OutLaws
pub mod OrientationLaws
pub mod PartLaws
