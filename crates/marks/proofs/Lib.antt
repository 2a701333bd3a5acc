pub mod MemberLaws
pub mod MarkLaws
pub mod GroundLaws
