pub mod NamedLaws
pub mod EssentialLaws
pub mod ConfiguredLaws
pub mod IspeLaws
pub mod SizeLaws
pub mod ToldLaws
pub mod AlikeLaws
