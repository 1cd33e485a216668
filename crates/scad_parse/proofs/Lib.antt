mod loops
mod rules
