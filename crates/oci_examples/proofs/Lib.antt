mod Clones
mod Folds
mod LastOption
