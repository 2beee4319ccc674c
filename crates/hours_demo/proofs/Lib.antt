mod RestartLaws
