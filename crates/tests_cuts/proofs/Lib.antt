pub mod ByHand
pub mod ThreePoints
