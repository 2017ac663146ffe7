-- The theorems of `playback`, and the laws that they rest on.
pub mod Decoding
pub mod Recordings
pub mod Columns
pub mod AsCalls
pub mod Widths
pub mod OneText
pub mod Printed
pub mod Parts
pub mod Blocks
