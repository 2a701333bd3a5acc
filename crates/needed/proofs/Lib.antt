pub mod MarkedLaws
pub mod SourcesLaws
