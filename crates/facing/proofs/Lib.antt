pub mod FacingLaws
pub mod TurnsLaws
pub mod FacedLaws
pub mod FitsLaws
pub mod OrientedLaws
