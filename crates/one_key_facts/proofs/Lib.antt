pub mod Cells
pub mod Marking
pub mod Linking
pub mod TakingOut
pub mod Opening
pub mod Shows
pub mod Walking
pub mod OneKeyLaws
