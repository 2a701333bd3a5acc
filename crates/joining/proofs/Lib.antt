pub mod LeadingLaws
pub mod PlaceLaws
pub mod CopyLaws
pub mod PieceLaws
pub mod RunLaws
pub mod RowLaws
pub mod HeldLaws
pub mod FileLaws
