pub mod Margins
pub mod Part
pub mod Pose
