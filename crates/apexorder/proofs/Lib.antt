mod Ended
mod Searched
mod Written
