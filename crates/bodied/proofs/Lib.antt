pub mod BodyLaws
pub mod RoomLaws
