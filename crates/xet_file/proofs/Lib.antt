mod Taking
mod Growing
