pub mod CheckLaws
pub mod LevelLaws
pub mod PropertyLaws
pub mod PairLaws
pub mod ShownLaws
