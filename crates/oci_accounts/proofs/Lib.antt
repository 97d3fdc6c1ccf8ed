mod Digits
mod Fields
mod Firsts
