mod Cuts
mod Lines
mod Values
mod RunLines
