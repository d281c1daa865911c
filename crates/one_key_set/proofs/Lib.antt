mod Looks
mod Filling
mod Doing
