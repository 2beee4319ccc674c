pub mod Normal
pub mod Sound
