mod Begun
mod Refused
