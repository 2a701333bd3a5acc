pub mod KeepLaws
pub mod AssociationLaws
pub mod EntryLaws
pub mod NameLaws
