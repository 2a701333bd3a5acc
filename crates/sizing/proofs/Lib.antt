pub mod FillLaws
pub mod PropertiesLaws
pub mod FaultLaws
pub mod BeforeLaws
pub mod OrderLaws
pub mod StandLaws
pub mod SizesLaws
