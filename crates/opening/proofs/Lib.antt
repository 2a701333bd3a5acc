pub mod OrderLaws
pub mod OpenedLaws
pub mod FileLaws
