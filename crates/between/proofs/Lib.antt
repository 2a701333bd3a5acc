pub mod SeamLaws
