mod Popping
mod Pairs
