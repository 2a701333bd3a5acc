pub mod PicturedLaws
pub mod AskedLaws
