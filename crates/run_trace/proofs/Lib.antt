mod ClockLaws
mod StrokeLaws
mod TextLaws
