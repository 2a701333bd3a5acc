pub mod PointsLaws
pub mod NumbersLaws
