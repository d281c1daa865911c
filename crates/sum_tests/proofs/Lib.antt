pub mod AllStill
