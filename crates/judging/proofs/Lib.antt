pub mod OrderLaws
pub mod SceneLaws
pub mod JudgedLaws
pub mod PlainLaws
pub mod LinkedLaws
pub mod JudgeLaws
pub mod MisfitLaws
