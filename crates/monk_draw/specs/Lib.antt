pub mod Asked
pub mod Window
pub mod Scene
