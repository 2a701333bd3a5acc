pub mod SizeLaws
pub mod TableLaws
pub mod EntryLaws
pub mod PutLaws
pub mod MarkLaws
pub mod LoopLaws
