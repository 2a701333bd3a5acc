pub mod InputLaws
pub mod BodyLaws
pub mod JoinedLaws
pub mod SaidLaws
pub mod RecipeLaws
