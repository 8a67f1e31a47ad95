mod Named
mod Told
