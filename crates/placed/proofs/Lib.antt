pub mod PrimaryLaws
pub mod ExtentLaws
pub mod PlaceLaws
pub mod SourceLaws
