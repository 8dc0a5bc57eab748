mod Most
mod Progress
