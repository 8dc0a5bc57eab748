mod Lefts
mod Onward
mod Scanned
mod Text
mod Way
mod Whole
