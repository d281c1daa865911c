mod Places
mod Learning
mod Progress
mod Seating
mod Shelves
mod Whole
