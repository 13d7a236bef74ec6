mod Deciding
mod Heading
mod Listing
mod Opening
mod Naming
mod Chaining
mod Telling
mod Ordering
