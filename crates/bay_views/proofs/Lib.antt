pub mod Uptos
pub mod Shapes
pub mod Harmless
pub mod FramesHold
pub mod Apart
pub mod Marked
