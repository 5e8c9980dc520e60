mod Sizes
mod Listing
mod Reading
mod Planned
