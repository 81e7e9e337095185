mod Crossing
mod Coming
