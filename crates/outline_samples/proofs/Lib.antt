mod Rounded
mod Turns
mod WholeLevels
