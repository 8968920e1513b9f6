mod Lengths
mod Ready
