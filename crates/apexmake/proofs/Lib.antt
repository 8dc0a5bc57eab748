mod Ended
mod Put
