pub mod SourcesLaws
