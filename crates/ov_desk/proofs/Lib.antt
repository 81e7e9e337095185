mod Ends
mod Serving
