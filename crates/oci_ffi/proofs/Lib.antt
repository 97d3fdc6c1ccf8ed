mod Accepted
mod Chosen
mod Pushed
mod Reported
mod Words
