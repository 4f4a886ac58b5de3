mod Banking
mod Congruence
mod Finding
mod Gathering
mod Sides
