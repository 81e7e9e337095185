pub mod Gap
pub mod Message
pub mod CutterState
pub mod Piece
pub mod Reading
