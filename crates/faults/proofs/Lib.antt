pub mod TellsLaws
pub mod FaultLaws
pub mod DerivationLaws
pub mod SizeLaws
pub mod FirstLaws
pub mod JudgedLaws
pub mod GoodLaws
