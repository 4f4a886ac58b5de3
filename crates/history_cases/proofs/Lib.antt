mod Small
mod Sweeps
mod Struck
mod Steps
mod Tested
