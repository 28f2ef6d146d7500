mod LineLaws
mod TellLaws
mod FrontLaws
mod ListLaws
mod RefusedLaws
mod StepLaws
