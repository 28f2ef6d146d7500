mod SceneLaws
