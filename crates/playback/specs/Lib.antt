-- What a recording is, told a second time, and what is guaranteed of playing one.
pub mod Format
pub mod Text
pub mod Playback
