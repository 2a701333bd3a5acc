pub mod Origins
pub mod Told
